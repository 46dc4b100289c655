pub mod Decoding
pub mod Digits
pub mod Fronts
pub mod Outcomes
pub mod Spelled
pub mod Telling
