pub mod OneMisfit
pub mod OneOutcome
pub mod OneText
pub mod Passing
pub mod VisitsWorked
pub mod RisingBounds
pub mod SmallRuns
pub mod FaultyRun
