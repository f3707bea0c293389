pub mod ShardedRows
pub mod LearnedPosts
