pub mod KnownTexts
pub mod ShortKeys
pub mod Slots
