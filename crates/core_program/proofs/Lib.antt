pub mod Serving
pub mod Answered
pub mod KnownCalls
pub mod ClientRuns
pub mod FlusherCalls
pub mod Waiting
