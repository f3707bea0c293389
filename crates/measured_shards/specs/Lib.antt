pub mod InBatches
pub mod ManyBricks
pub mod Scanned
