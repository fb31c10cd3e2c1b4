pub mod Codes
pub mod Stayed
pub mod Long
