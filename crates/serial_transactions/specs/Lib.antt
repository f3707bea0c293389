pub mod SerialTransactions
