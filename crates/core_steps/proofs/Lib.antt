pub mod FoundTotals
pub mod OnCore
pub mod RangeEnds
pub mod ToldNames
