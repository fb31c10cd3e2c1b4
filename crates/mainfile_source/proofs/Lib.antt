pub mod Shelves
pub mod Joined
pub mod Joining
pub mod Seven
pub mod Places
