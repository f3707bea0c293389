pub mod Cases
pub mod Drawn
