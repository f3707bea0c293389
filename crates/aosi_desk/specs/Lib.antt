pub mod State
pub mod Holds
pub mod Fits
pub mod Desks
