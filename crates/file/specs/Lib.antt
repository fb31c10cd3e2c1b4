pub mod Check
pub mod Mainfile
pub mod Formats
pub mod Accepted
pub mod Viewed
pub mod Walk
