pub mod Placed
pub mod Figures
pub mod Answers
pub mod Demand
