pub mod SafeEpochs
pub mod RoundsInStore
pub mod OwnKnowledge
