pub mod Bindings
pub mod Refusals
pub mod Ties
pub mod AllParts
