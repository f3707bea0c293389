pub mod AgreeingReadings
pub mod SaidTexts
pub mod ReadInTurns
pub mod GivenInputs
pub mod ServedFiles
pub mod ReadScripts
