pub mod Answers
pub mod Places
pub mod Sent
