pub mod Digits
pub mod Reading
pub mod Writing
pub mod Lines
pub mod Amounts
pub mod Fitting
