pub mod Series
pub mod Packed
