pub mod Addresses
pub mod Covers
pub mod CoverParts
pub mod Shares
