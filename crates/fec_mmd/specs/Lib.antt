pub mod Device
pub mod Layout
pub mod Meaning
pub mod Kept
