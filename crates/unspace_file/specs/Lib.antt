pub mod Unspaced
