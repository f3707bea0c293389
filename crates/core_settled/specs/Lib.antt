pub mod SettledEpochs
