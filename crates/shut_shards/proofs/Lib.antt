pub mod KeptMarks
pub mod ShardSteps
pub mod MarkedCells
pub mod ViewedRows
pub mod RecordedShards
