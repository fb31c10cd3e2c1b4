pub mod Merging
pub mod Blocks
