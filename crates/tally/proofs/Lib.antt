pub mod Order
pub mod Tallies
pub mod Worked
