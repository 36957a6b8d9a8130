pub mod Parts
pub mod Rules
pub mod Verdict
pub mod Encode
pub mod Edited
