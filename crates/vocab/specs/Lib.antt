pub mod Limits
pub mod Refusals
pub mod Checks
pub mod Buffers
pub mod Places
pub mod Layers
pub mod Names
pub mod Texts
