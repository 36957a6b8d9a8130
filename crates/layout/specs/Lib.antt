pub mod Bytes
pub mod Field
pub mod Row
pub mod Check
