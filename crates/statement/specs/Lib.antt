pub mod Entry
pub mod Fits
pub mod PageFigures
