pub mod SessionCalls
pub mod KnownHolds
