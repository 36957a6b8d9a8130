pub mod LineWritten
pub mod LineLengths
pub mod LineRead
pub mod LineFigures
pub mod Lengths
pub mod Figures
pub mod PageRead
