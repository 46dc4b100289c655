pub mod Checked
pub mod Listed
pub mod Told
pub mod Watches
