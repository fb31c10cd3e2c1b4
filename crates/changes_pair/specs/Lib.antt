pub mod Live
pub mod Pair
