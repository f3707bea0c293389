pub mod FinalCodes
pub mod DictsAsEncoder
pub mod CodedValues
pub mod CodedInserts
pub mod CodedRecords
pub mod CodedTexts
pub mod CodedLoads
