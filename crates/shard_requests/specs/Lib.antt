pub mod FlushNotes
pub mod RoundsAfter
