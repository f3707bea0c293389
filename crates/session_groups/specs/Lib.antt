pub mod AnswersInTurn
pub mod ShardGroups
pub mod GroupOperations
