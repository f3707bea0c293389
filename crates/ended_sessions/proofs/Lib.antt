pub mod HeldNumbers
pub mod StepHolds
pub mod EndHolds
