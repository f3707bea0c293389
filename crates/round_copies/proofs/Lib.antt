pub mod CopiedRound
pub mod CopiedRows
pub mod CopyTurns
pub mod FlusherSteps
pub mod Listed
pub mod NameLoops
pub mod RoundGoes
pub mod RoundSteps
