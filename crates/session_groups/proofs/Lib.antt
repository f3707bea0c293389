pub mod MergedPartials
pub mod InTurn
pub mod DoneRollbacks
pub mod CubesInRuns
pub mod Knowing
pub mod FoundFolds
pub mod AddedOperations
