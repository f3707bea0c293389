pub mod Batches
pub mod EachColumn
pub mod InPlace
pub mod KeptItems
pub mod RowLists
pub mod WholeRows
