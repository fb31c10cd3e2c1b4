pub mod Shelf
pub mod Search
pub mod Stock
