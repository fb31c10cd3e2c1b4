pub mod Loops
pub mod Slots
pub mod Kept
pub mod Marks
