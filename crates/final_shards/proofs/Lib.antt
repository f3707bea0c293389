pub mod LeftEntries
pub mod PurgedShards
pub mod HeldRows
pub mod RecordedRows
