pub mod EndedSessions
pub mod EndedRuns
