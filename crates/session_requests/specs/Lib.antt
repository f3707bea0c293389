pub mod SessionRequests
