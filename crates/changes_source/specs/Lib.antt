pub mod Rows
pub mod Addresses
pub mod Delivery
