pub mod Locality
pub mod Text
pub mod Organisation
pub mod Address
