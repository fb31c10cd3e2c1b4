pub mod Worked
pub mod Same
pub mod Refs
pub mod Cases
