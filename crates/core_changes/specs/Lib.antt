pub mod ChangeEnds
pub mod CallsOfChanges
pub mod ChangesInRuns
pub mod StepsByWriters
pub mod FinishedChanges
pub mod ChangesUnderWay
