pub mod Filling
pub mod Naming
pub mod Judging
