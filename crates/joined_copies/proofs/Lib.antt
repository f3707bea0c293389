pub mod BrickFilters
pub mod CopiesInTurn
pub mod Ordered
pub mod RisingParts
