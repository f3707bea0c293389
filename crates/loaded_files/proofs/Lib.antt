pub mod Openings
pub mod LookedAt
pub mod MoreReplies
