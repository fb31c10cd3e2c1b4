pub mod Address
pub mod Resolve
pub mod Delivery
pub mod Same
