pub mod Counters
pub mod Equal
pub mod Kept
pub mod Latches
pub mod Layouts
pub mod Settings
pub mod Unique
pub mod Words
