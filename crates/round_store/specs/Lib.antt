pub mod Counts
pub mod Creation
pub mod Opening
pub mod States
pub mod Wholes
