pub mod Digits
pub mod Narrow
pub mod FewDigits
pub mod Texts
pub mod Judged
pub mod RecordsLeft
pub mod SourceSteps
pub mod Counts
