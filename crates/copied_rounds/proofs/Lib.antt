pub mod Moments
pub mod ToldSince
pub mod KeptPlaces
pub mod RoundsOfRuns
