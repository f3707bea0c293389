pub mod RunsOnRecord
pub mod ReadySessions
pub mod Shelves
pub mod LeftByRuns
