pub mod FoundRounds
pub mod OneBrick
