pub mod Addresses
pub mod Size
pub mod Sound
