pub mod KeptRounds
