pub mod RowsOfCubes
