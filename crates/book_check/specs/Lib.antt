pub mod Identity
pub mod Marked
