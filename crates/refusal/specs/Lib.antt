pub mod Refusal
pub mod Answer
pub mod Packed
pub mod Verdict
pub mod Outcome
