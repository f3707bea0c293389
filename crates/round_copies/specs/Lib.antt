pub mod CopyAnswers
pub mod RoundCopies
pub mod WithinRounds
