pub mod HeaderReading
pub mod TextLengths
pub mod Writing
