pub mod Orders
pub mod Items
pub mod Limits
pub mod Stable
pub mod Agreement
