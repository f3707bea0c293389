pub mod RoundsLeave
pub mod Onward
pub mod LostRounds
pub mod Executing
pub mod Committing
