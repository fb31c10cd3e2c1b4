pub mod Laws
pub mod Walks
pub mod Counts
pub mod Pack
pub mod Joined
pub mod Starts
