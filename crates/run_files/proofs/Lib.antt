pub mod FilesRead
pub mod FileEnds
