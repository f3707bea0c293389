pub mod GroupsLeave
pub mod TakenBack
pub mod Executing
