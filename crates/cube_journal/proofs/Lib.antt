pub mod Digits
pub mod LeastEpochs
pub mod OpenBounds
pub mod Orders
