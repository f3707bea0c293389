pub mod Columns
pub mod Folded
pub mod OneBrick
pub mod Rounds
pub mod Scanned
pub mod Sums
