pub mod CodedConditions
pub mod Codes
pub mod Spans
