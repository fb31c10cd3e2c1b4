pub mod Fold
pub mod Said
pub mod Walk
