pub mod DeleteBoxes
