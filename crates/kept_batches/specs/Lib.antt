pub mod RoundsFit
pub mod KeptBatches
pub mod Unhidden
pub mod StoredRounds
