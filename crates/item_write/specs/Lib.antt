pub mod Line
pub mod Headed
