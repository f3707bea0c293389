pub mod CopyCalls
pub mod NoRounds
pub mod CopiedLists
pub mod Moments
