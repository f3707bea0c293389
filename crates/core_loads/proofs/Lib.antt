pub mod BegunLoads
pub mod EndedLoads
pub mod LoadsInRuns
pub mod StepsOfLoads
pub mod TextsOfLoads
