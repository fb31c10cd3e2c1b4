pub mod Texts
pub mod Rows
pub mod Fields
pub mod Addresses
pub mod Size
pub mod Elements
