pub mod Theorems
pub mod Edges
pub mod Copy
