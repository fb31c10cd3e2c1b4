pub mod Plan
pub mod Rows
pub mod Placed
pub mod Bytes
pub mod Ready
pub mod Within
