pub mod Source
pub mod Starts
