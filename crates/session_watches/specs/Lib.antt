pub mod KnownReaders
pub mod DeltaAnswers
pub mod ComparedShards
