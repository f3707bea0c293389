pub mod RunFiles
pub mod Readings
pub mod Texts
