pub mod Lines
pub mod Item
