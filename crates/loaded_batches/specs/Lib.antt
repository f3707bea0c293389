pub mod LoadingCalls
pub mod LoadFronts
pub mod LoadTexts
pub mod LoadEnds
