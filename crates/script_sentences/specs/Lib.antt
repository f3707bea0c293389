pub mod Sentences
pub mod GivenTexts
