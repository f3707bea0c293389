pub mod StepsOfDeletes
pub mod DeletesInRuns
pub mod EndedDeletes
pub mod BegunDeletes
