pub mod RowsOfRounds
