pub mod Records
pub mod Report
pub mod Shown
