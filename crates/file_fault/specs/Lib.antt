pub mod Fields
pub mod Table
pub mod Point
