pub mod NewCubes
pub mod Places
