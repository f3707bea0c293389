pub mod CopiedRows
