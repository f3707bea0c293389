pub mod AtMail
