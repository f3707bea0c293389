pub mod Counted
pub mod Numbers
pub mod Rows
pub mod Words
