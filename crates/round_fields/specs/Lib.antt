pub mod Canonical
pub mod Digests
pub mod Reading
