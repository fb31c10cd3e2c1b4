pub mod Names
pub mod Numbers
pub mod Sectors
pub mod Layout
pub mod Opening
pub mod Points
pub mod Cutting
pub mod Sound
