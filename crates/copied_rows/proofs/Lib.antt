pub mod ShardRows
pub mod CopiedBricks
