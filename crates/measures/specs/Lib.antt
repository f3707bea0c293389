pub mod Checksums
pub mod Encoded
pub mod Lines
pub mod Loads
pub mod Words
