pub mod Rows
pub mod Fields
pub mod Forms
pub mod Worked
