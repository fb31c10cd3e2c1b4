pub mod Order
pub mod Orderings
pub mod Laws
pub mod Digits
pub mod Words
