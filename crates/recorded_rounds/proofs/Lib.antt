pub mod RowsOnRecord
pub mod OwnNames
