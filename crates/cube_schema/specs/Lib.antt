pub mod Schemas
pub mod Repeats
pub mod Dimensions
pub mod Reading
pub mod Forms
pub mod Gathering
pub mod Outcomes
pub mod Texts
