pub mod RowsInTheEnd
