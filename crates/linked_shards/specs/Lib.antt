pub mod CellShards
