pub mod AskedEach
pub mod AskedSome
pub mod EachPosted
pub mod PostedSome
