pub mod Layout
pub mod Search
pub mod Book
pub mod Meaning
pub mod Event
pub mod Agrees
