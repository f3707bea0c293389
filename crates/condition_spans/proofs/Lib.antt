pub mod Among
pub mod Rising
pub mod Shared
pub mod Parts
