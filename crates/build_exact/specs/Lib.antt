pub mod Within
pub mod Started
