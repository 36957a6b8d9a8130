pub mod Added
pub mod Extending
pub mod Kept
pub mod Payments
pub mod Tested
pub mod Theorems
