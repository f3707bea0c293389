pub mod DeleteEnds
