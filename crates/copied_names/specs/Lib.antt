pub mod CopiedNames
