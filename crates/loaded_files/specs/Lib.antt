pub mod LoadedFiles
pub mod CountedReplies
