pub mod Kth
pub mod Laws
pub mod Shown
