pub mod DigestLaws
pub mod FieldLaws
pub mod Told
