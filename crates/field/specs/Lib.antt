pub mod Test
pub mod Digits
pub mod Text
