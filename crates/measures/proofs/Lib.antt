pub mod Idle
pub mod RecordCounts
