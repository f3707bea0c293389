pub mod OtherHolds
pub mod HolderCalls
pub mod HolderGroups
pub mod HolderStaying
