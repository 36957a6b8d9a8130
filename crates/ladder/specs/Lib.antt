pub mod Totals
pub mod Ladder
pub mod Kept
pub mod Held
pub mod Netted
pub mod Exposure
pub mod Values
