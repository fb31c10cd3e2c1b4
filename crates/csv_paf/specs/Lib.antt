pub mod Row
pub mod File
pub mod Ask
