pub mod BegunInserts
pub mod EndedInserts
pub mod InsertsInRuns
pub mod StepsOfInserts
