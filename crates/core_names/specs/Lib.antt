pub mod KnownNumbers
pub mod AskedNames
pub mod CallsOnNames
pub mod NamesInTheEnd
pub mod CoreEncoders
pub mod StaysAsWhoAsks
