pub mod PostsBehind
pub mod PostsAdded
pub mod DoneChanges
