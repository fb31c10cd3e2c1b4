pub mod Verdicts
pub mod Refusals
pub mod Elements
pub mod Fits
