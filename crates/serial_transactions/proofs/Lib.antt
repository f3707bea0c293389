pub mod Rearranged
pub mod ByEpochs
