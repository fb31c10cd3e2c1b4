pub mod Entries
pub mod Coded
pub mod Tells
pub mod Worked
