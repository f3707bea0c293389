pub mod FileRefusals
pub mod OtherReplies
pub mod Counted
