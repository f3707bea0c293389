pub mod PostsForOperations
pub mod ScriptedRuns
pub mod NamedQueries
