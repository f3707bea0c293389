pub mod EntryWrites
pub mod Fronts
pub mod HeaderLaws
pub mod Shorts
pub mod TextLengths
pub mod Zips
