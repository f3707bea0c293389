pub mod FailedStores
pub mod KeptImages
pub mod KeptByRecord
pub mod ToldDisks
pub mod KeptThroughout
pub mod Moments
