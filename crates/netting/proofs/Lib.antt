pub mod Worths
pub mod DaySums
pub mod Sizes
pub mod NettedValue
pub mod NetAmounts
