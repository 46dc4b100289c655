pub mod Checks
pub mod Entries
pub mod Lists
pub mod Watches
