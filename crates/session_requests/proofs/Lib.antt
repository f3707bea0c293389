pub mod Outcomes
pub mod AskedRounds
pub mod AskedPurges
pub mod ShownCounters
