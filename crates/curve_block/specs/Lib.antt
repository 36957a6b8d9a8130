pub mod Parts
pub mod Rules
pub mod Verdict
