pub mod CallerEnds
pub mod CoreParts
pub mod RanCores
pub mod Rooms
pub mod TaskLists
