pub mod RoundStates
pub mod FlushReplies
