pub mod InsertEnds
