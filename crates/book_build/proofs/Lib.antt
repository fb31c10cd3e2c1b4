pub mod Packed
pub mod Laws
pub mod Stopped
