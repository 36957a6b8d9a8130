pub mod Amounts
pub mod Window
pub mod Legs
pub mod Counted
pub mod Capped
pub mod Limits
pub mod Verdict
