pub mod Stretches
pub mod Told
