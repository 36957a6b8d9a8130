pub mod Reach
pub mod Values
pub mod Extended
pub mod Falls
pub mod SmallestRate
pub mod Halves
