pub mod Lines
pub mod Label
pub mod Spans
pub mod Put
pub mod Rows
pub mod Widths
