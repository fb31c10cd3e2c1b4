pub mod Report
pub mod Fed
