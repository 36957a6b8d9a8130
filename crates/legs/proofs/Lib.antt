pub mod Table
pub mod Numbered
pub mod Counted
pub mod Reach
