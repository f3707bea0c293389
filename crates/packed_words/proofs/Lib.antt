pub mod BitParts
pub mod CellNumbers
pub mod CountedSums
pub mod HeldRows
pub mod Numbers
pub mod RowLists
pub mod Shifts
pub mod WordLists
