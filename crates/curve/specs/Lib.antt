pub mod Rates
pub mod Limits
pub mod Scenarios
pub mod Stress
pub mod Lengthen
