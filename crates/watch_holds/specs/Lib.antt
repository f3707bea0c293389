pub mod HolderStates
