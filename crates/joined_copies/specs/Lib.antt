pub mod JoinedCopies
