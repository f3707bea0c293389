pub mod Fills
pub mod Moments
pub mod Writes
