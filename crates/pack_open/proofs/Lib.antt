pub mod Trailers
pub mod Opened
pub mod Fits
