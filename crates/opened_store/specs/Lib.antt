pub mod Causes
pub mod Differences
pub mod Meanwhile
pub mod Opened
pub mod SameTexts
pub mod Steps
