pub mod Standing
pub mod Locating
pub mod Searching
pub mod Storing
pub mod Inserting
pub mod Rewriting
