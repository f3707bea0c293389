pub mod Looks
pub mod BareWords
pub mod Steps
pub mod Walks
pub mod Ended
pub mod WordKinds
pub mod Refusals
pub mod Cuts
