pub mod ReadingCalls
pub mod ReadLines
pub mod SelectEnds
pub mod ScanSteps
