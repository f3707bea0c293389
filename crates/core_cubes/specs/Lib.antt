pub mod StatementCalls
pub mod MadeAndFound
pub mod ExecutedWatched
pub mod StandingCubes
