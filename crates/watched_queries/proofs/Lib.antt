pub mod ReaderMoments
pub mod FollowedWatches
pub mod WatchOutcomes
pub mod WatchAnswers
