pub mod RecordedRounds
