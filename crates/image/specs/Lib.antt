pub mod Stores
pub mod Searches
pub mod Heads
pub mod Places
