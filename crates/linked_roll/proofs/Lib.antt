pub mod Tickets
pub mod Chains
pub mod Lists
