pub mod Packed
pub mod Said
pub mod Laws
pub mod Stopped
