pub mod Purged
pub mod Sight
