pub mod ScriptEnding
