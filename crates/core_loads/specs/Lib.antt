pub mod ShelfLoads
pub mod LoadEnds
