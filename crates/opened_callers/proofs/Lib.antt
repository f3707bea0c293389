pub mod ToldSizes
pub mod ToldCubes
pub mod OpenedNames
