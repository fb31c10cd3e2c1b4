pub mod Marks
pub mod Refused
pub mod Packed
pub mod Stopped
