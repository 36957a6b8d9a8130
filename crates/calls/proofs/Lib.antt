pub mod Bytes
pub mod Theorems
