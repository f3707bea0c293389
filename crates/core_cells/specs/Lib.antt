pub mod DeskCalls
pub mod NamesCalls
pub mod MailCalls
