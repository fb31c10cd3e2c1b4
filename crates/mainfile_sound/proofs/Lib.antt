pub mod Rows
pub mod Organisations
pub mod Addresses
pub mod Size
pub mod Sound
pub mod Lengths
pub mod Capitals
