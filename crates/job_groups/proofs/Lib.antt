pub mod Waits
pub mod GroupSteps
pub mod GroupLoops
pub mod Ended
pub mod FetchSteps
pub mod FetchLoops
