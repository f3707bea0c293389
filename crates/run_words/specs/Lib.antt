pub mod Numbers
pub mod CommandLine
pub mod Commands
pub mod Words
pub mod Laws
