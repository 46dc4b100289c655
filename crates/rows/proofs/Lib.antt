pub mod Bounds
pub mod Checked
pub mod Counters
pub mod Disjoint
pub mod Formed
pub mod Own
pub mod Passing
pub mod Spans
