pub mod Theorems
pub mod AnotherDay
