pub mod OwnRounds
pub mod ServedFlushes
pub mod FlushTurning
pub mod OpenedAndClosed
pub mod LostNone
