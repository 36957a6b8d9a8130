pub mod Checked
pub mod Fields
