pub mod Padding
pub mod Nine
