pub mod KnownCubes
pub mod KnownNames
