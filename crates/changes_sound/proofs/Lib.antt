pub mod Rows
pub mod Follower
pub mod Addresses
pub mod Size
pub mod Sound
