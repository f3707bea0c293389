pub mod ValidFronts
pub mod Keywords
pub mod KeywordsByLetter
