pub mod Bricks
pub mod Dimensions
pub mod Intervals
pub mod RisingLists
pub mod Steps
