pub mod Pasts
pub mod Behind
pub mod Changes
