pub mod Variants
pub mod SelectLines
