pub mod Ending
pub mod Pieces
pub mod Carried
pub mod Placed
