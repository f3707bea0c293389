pub mod ShardBatches
pub mod Counted
