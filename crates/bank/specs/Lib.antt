pub mod Banks
pub mod Deeds
pub mod Searches
pub mod Slots
