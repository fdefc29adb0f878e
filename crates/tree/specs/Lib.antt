pub mod Trees
pub mod Questions
pub mod Changes
pub mod Law
pub mod Meaning
pub mod Theorems
