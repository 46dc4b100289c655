pub mod Changes
pub mod Counts
pub mod Device
pub mod Entries
pub mod Fills
pub mod Kept
pub mod Tables
