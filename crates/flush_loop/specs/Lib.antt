pub mod RoundResults
pub mod MadeRounds
pub mod FlushTurns
pub mod PlainRounds
