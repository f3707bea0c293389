pub mod FlusherMail
