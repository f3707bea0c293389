pub mod EncodedBatches
pub mod NamesAtEnd
pub mod PutRows
pub mod TextsOn
