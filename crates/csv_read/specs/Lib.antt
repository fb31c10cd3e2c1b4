pub mod Cut
pub mod Judged
