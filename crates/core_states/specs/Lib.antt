pub mod CorePasts
pub mod RunsFrom
pub mod OwnCalls
pub mod Endings
pub mod StandingInCore
pub mod LeftBehind
pub mod ExecutedInCore
