pub mod StorableParts
