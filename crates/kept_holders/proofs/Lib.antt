pub mod LeftHolders
