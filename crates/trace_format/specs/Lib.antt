pub mod Decoding
pub mod Lines
pub mod Numbers
pub mod Records
pub mod Telling
