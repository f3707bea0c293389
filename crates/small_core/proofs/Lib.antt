pub mod NewFlusher
pub mod NewHands
