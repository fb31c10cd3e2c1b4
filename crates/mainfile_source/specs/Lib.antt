pub mod Rows
pub mod Organisations
pub mod Delivery
