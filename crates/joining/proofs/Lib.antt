mod Walks
pub mod Words
