pub mod KeptShards
pub mod Openings
