pub mod CheapLogs
pub mod LowDigits
pub mod Powers
pub mod Bound
