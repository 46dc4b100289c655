pub mod Inputs
pub mod Parts
pub mod Stepped
pub mod Worked
