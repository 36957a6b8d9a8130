pub mod Losses
pub mod Worst
pub mod Positions
pub mod Margins
pub mod Demand
pub mod Choice
