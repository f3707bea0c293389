pub mod ColumnTests
pub mod Stages
pub mod Adjacent
pub mod ColumnFaults
pub mod Cuts
pub mod OwnParts
