pub mod Views
pub mod Build
pub mod Ready
