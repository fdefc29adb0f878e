mod Entering
mod Counting
pub mod Chains
mod Beyond
mod Walking
