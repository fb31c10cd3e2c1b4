pub mod Laws
pub mod Told
pub mod Digits
pub mod Numbers
