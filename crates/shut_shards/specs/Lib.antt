pub mod ShutShards
