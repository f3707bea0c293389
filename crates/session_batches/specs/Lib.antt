pub mod BatchCalls
pub mod Refusals
pub mod RowPosts
pub mod PutRows
pub mod RowsOut
