pub mod Laws
pub mod Bounds
pub mod Passing
pub mod AtOnce
