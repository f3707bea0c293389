pub mod SavedEpochs
