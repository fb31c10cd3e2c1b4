pub mod Numbers
pub mod Live
