pub mod OwnSoFar
pub mod Moments
pub mod FoundSoFar
