pub mod Places
pub mod Logs
mod Owners
mod Pigeons
mod Tickets
mod Drawing
mod Looking
mod Passing
mod Settling
mod Sharing
mod Ends
mod Chains
mod Serving
mod Gathering
