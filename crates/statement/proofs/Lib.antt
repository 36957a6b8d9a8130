pub mod Answers
pub mod Limits
pub mod Fits
pub mod Largest
pub mod PageFigures
