pub mod Hands
pub mod Tasks
pub mod Ends
pub mod Starts
pub mod Stations
pub mod Sides
