pub mod RowsByBrick
pub mod KeptFacts
pub mod OpenedShards
pub mod OpenedViews
pub mod OpenedCells
