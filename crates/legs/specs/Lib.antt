pub mod Signs
pub mod Runs
pub mod Counted
pub mod Limits
