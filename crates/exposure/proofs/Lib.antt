pub mod Pushing
pub mod Gathered
pub mod Growing
pub mod Collected
pub mod Fitting
pub mod Parts
