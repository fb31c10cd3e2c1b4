pub mod Used
pub mod Rows
