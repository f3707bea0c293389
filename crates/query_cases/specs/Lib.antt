pub mod Trials
pub mod TwoRows
pub mod Comparable
