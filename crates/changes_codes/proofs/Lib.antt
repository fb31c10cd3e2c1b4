pub mod Gathered
pub mod Pairs
pub mod Listed
pub mod Told
pub mod Answered
