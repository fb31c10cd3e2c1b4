pub mod Order
pub mod Tally
