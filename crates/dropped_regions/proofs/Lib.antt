pub mod AskedKinds
pub mod NamesAtTheEnd
pub mod OneCube
pub mod BoxesOfPlans
pub mod DroppedOnShards
