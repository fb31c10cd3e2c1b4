pub mod Lossless
pub mod Answers
pub mod Outcomes
pub mod Verdicts
pub mod Passed
