pub mod StepParts
pub mod Modes
pub mod RowEntries
pub mod RowSteps
