pub mod Bricks
pub mod Cells
pub mod Copies
pub mod CountedChunks
pub mod Cuts
pub mod Deltas
pub mod Rows
pub mod Whole
