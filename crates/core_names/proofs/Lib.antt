pub mod LearnedTexts
pub mod CodedCalls
pub mod EndingNames
pub mod GivenCodes
pub mod HeldOn
pub mod PlainNames
