pub mod Fields
pub mod FileRecords
pub mod Sources
pub mod Loads
