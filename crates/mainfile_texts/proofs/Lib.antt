pub mod Kept
pub mod Spanned
pub mod Whole
