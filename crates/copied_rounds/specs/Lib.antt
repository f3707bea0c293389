pub mod CopiedRounds
