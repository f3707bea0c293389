pub mod JoinedEpochs
