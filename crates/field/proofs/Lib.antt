pub mod Tests
pub mod Faults
pub mod Values
pub mod Texts
pub mod Parts
pub mod Likes
pub mod Runs
pub mod Fronts
