pub mod Worked
pub mod Extension
