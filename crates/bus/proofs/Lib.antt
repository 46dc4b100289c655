pub mod Events
pub mod Found
pub mod Places
pub mod Reached
pub mod Sent
