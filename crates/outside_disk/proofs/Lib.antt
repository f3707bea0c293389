pub mod Bytes
pub mod Courses
pub mod Fresh
pub mod Images
pub mod Moments
pub mod Reading
