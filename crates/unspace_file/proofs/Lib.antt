pub mod Laws
pub mod Kept
pub mod Records
pub mod Parts
