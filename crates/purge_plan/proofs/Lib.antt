pub mod Counts
pub mod Joins
pub mod OldMarks
pub mod Passing
pub mod SameEpochs
pub mod SameHidden
pub mod SameSight
