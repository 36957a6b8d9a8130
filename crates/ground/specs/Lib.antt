pub mod Limits
pub mod Number
pub mod Verdicts
pub mod Space
