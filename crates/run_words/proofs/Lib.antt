pub mod FoundValues
pub mod SpelledNumbers
pub mod Decided
pub mod WordsEnd
pub mod OneCommand
