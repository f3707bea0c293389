pub mod Currents
pub mod EachItem
pub mod Following
pub mod FrontsRead
pub mod Growing
pub mod PairsRead
pub mod RoundsRead
pub mod Texts
