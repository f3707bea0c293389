pub mod Entries
pub mod ShortKeys
pub mod Slots
