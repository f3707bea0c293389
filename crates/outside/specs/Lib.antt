pub mod Counts
pub mod Files
pub mod Given
pub mod Memory
pub mod Output
pub mod Told
pub mod ShelfCalls
