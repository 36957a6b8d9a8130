pub mod Line
pub mod LineLimits
pub mod Page
pub mod Limits
pub mod PageRead
