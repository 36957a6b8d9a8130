pub mod Bought
pub mod Refusals
pub mod Limits
pub mod Bootstrap
