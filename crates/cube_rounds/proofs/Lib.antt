pub mod Leads
pub mod OneMore
