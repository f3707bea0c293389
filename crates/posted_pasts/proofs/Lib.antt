pub mod StepOperations
pub mod DoneSteps
pub mod AbortedEpochs
pub mod ChangesStand
pub mod AddedCalls
pub mod PostsMore
pub mod PostsAtEnd
