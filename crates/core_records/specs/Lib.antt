pub mod CoreRecords
pub mod OwnEntries
pub mod ScriptedCalls
pub mod OpeningNames
