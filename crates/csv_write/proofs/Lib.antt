pub mod Pieces
pub mod Plain
pub mod Sizes
pub mod Written
pub mod Placed
