pub mod ShardCalls
pub mod ShardsInRuns
pub mod ViewedShards
