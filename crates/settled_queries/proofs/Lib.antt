pub mod Openers
pub mod SettledRows
pub mod Moments
pub mod StayingScans
