pub mod RowsOfRuns
