pub mod HolderSteps
pub mod KeptHolders
pub mod MergedChanges
pub mod AskedShards
