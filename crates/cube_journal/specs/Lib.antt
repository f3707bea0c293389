pub mod Entries
pub mod Counters
pub mod Legal
pub mod Order
pub mod JournalLines
pub mod Refusals
pub mod Replies
pub mod WholeText
