pub mod Bisect
pub mod Search
pub mod Force
pub mod Last
pub mod Stock
pub mod Joined
