pub mod RowsByKey
pub mod ToldRows
pub mod OpenedRows
pub mod MadeCubes
