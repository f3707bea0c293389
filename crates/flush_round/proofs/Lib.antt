pub mod StoreFollows
pub mod ToldCopies
