pub mod KeptFiles
pub mod KeptNames
pub mod KeptRounds
pub mod SoundKept
pub mod KeptDicts
