pub mod Widths
pub mod Worked
pub mod Shared
pub mod Suffixes
pub mod Sectors
