pub mod Lists
pub mod Fronts
pub mod Divisions
pub mod Neighbours
pub mod Agreement
pub mod Order
pub mod Solid
