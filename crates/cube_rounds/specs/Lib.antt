pub mod Bricks
pub mod Bytes
pub mod Demands
pub mod Headers
pub mod Stands
pub mod KeptRows
