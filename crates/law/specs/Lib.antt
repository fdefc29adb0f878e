pub mod Spells
pub mod Theorems
pub mod Guarantees
pub mod Examples
