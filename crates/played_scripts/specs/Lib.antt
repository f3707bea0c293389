pub mod Promises
pub mod PlayedRuns
