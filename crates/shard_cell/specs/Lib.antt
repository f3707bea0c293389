pub mod Slots
pub mod Shards
pub mod Answers
