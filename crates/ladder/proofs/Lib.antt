pub mod LadderFlows
pub mod Folds
pub mod Totals
pub mod Netting
pub mod KeptFactors
pub mod Held
pub mod Sizes
