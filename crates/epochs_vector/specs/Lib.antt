pub mod Changed
pub mod Entries
pub mod Limits
pub mod Seen
pub mod Without
