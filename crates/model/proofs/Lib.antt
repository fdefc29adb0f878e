pub mod Ordering
pub mod Each
pub mod Choosing
pub mod Calling
pub mod Serving
