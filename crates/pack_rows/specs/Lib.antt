pub mod Walks
pub mod Odds
pub mod Marks
pub mod Steps
