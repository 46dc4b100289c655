pub mod Addresses
pub mod Laws
pub mod Numbers
pub mod Words
