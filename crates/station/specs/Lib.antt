pub mod Named
pub mod Outcomes
pub mod Runs
pub mod SetUps
pub mod Stations
pub mod Takes
