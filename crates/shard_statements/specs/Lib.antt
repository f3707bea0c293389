pub mod OverShards
