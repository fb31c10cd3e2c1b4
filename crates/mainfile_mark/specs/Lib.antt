pub mod Marks
pub mod Packed
