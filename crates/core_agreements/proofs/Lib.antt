pub mod PostsLeave
pub mod SerialRuns
pub mod OpenedEpochs
pub mod EpochOperations
pub mod NamedValues
pub mod KeptStood
pub mod SeenRecords
pub mod TablesAnswer
