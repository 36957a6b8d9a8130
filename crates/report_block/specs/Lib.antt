pub mod Report
pub mod Shown
