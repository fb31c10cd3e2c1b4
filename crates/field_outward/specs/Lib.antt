pub mod Letters
pub mod Outward
pub mod Inward
pub mod Classes
