pub mod KnownNames
pub mod Limits
pub mod Payload
pub mod RoundReading
pub mod Spellings
