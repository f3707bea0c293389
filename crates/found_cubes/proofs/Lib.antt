pub mod CalledCubes
pub mod FoundOnRecord
