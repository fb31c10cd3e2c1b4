pub mod Build
pub mod Written
pub mod Ready
