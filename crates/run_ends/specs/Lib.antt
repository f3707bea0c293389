pub mod RunEnds
pub mod AllSafeEnds
