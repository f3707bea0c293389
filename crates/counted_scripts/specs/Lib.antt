pub mod CountedLoads
pub mod RepliesOfSessions
