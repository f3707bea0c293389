pub mod MainSteps
pub mod MainPurges
pub mod PurgeLoops
