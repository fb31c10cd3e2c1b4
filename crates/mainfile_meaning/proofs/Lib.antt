pub mod Organisations
pub mod Says
pub mod Meant
