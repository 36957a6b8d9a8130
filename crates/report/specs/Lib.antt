pub mod Entry
pub mod Bounded
