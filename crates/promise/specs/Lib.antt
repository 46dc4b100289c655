pub mod Logs
pub mod Promises
pub mod Rules
