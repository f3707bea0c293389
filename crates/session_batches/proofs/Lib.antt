pub mod Refusing
pub mod Appending
pub mod OneRow
pub mod Posting
pub mod Putting
pub mod GoneOut
