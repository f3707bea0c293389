pub mod ReadersInRuns
pub mod WatchSteps
pub mod WatchesInRuns
