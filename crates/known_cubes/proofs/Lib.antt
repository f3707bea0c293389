pub mod CubesMade
pub mod DeskCubes
pub mod OwnCalls
pub mod ToldCubes
pub mod ToldNames
pub mod DeclaredCubes
