pub mod ToldFiles
pub mod PlayingSessions
pub mod PlayedWhole
pub mod ScriptWorks
pub mod ScriptsOnThreads
pub mod GivenScripts
