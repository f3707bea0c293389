pub mod ManyRows
