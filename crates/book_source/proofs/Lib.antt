pub mod Records
pub mod Walked
pub mod Says
pub mod Places
