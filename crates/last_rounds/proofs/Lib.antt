pub mod OpenCounters
pub mod SavedRounds
