pub mod SafeRounds
pub mod KeptHeaders
pub mod OpeningCubes
pub mod FaultCounts
pub mod OwnRounds
pub mod ClosedRounds
pub mod Images
