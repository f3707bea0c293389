pub mod CoreWorks
pub mod CoreRuns
