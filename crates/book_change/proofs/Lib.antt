pub mod Writes
pub mod Changes
