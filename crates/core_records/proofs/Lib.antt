pub mod EntryOwners
pub mod SessionParts
pub mod CubesOnRecord
pub mod NamedApart
pub mod SpokenNames
pub mod NamesOnRecord
