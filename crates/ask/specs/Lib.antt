pub mod Source
pub mod Labels
pub mod Runs
pub mod Lists
pub mod Shown
