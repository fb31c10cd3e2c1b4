pub mod Set
pub mod Accepted
pub mod Rows
pub mod Addresses
pub mod Main
