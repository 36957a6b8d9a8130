pub mod Value
pub mod Limits
