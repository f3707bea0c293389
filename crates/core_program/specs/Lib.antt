pub mod CoreFits
pub mod LinkedCells
pub mod Workers
pub mod AnswersOfCalls
pub mod Knowing
pub mod Flushing
pub mod ClientCalls
