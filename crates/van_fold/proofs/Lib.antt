pub mod Counts
pub mod Writes
pub mod Spaces
pub mod Lines
pub mod Folded
