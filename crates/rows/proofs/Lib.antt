pub mod Searching
pub mod Holding
