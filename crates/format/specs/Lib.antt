pub mod Layout
pub mod Fields
pub mod Entries
pub mod Images
pub mod Reading
pub mod Theorems
