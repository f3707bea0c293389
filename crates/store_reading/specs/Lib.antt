pub mod Fronts
pub mod Pairs
pub mod Parts
pub mod Places
pub mod Rounds
