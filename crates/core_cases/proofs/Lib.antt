pub mod SmallRun
pub mod WholeRun
