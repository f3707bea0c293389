pub mod CallLists
pub mod Pieces
pub mod Unread
