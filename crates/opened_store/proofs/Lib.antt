pub mod CauseLaws
pub mod Keeping
pub mod NewStores
