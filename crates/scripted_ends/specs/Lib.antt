pub mod EndedScripts
pub mod PlayedHistories
