pub mod PurgedBricks
pub mod FinalShards
