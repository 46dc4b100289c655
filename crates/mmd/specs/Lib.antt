pub mod Alike
pub mod Cells
pub mod Events
pub mod Invariant
pub mod Meaning
pub mod Refusals
