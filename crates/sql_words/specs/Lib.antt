pub mod Fronts
pub mod Places
pub mod Laws
pub mod Texts
