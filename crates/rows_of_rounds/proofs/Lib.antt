pub mod JoinedParts
pub mod RoundAbove
pub mod NumberedParts
pub mod SettledRows
pub mod UnmadeCubes
pub mod RowsThen
