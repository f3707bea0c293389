pub mod CountedNames
pub mod RowsAtOpening
pub mod KeptInRuns
