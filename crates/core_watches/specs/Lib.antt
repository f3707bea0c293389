pub mod BoundQueries
pub mod KeptWatches
pub mod WatchingCalls
pub mod BoundReaders
pub mod WatchEnds
