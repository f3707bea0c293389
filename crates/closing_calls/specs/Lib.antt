pub mod ClosingCalls
