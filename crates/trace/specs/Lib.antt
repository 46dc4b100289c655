pub mod Parts
pub mod Replays
pub mod Steps
pub mod Traces
