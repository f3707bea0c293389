pub mod Tallies
pub mod Places
pub mod Coded
pub mod Standing
pub mod Totals
pub mod Lines
pub mod Tables
