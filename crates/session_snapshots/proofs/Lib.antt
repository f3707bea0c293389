pub mod KnownSteps
