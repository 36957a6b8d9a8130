pub mod Lowering
pub mod Refining
