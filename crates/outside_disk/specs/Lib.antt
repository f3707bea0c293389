pub mod Course
pub mod Crash
pub mod DiskBytes
pub mod Laws
pub mod Memory
pub mod Reads
pub mod Effects
pub mod Views
