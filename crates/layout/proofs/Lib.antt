pub mod Bytes
pub mod Field
pub mod Row
pub mod Sealed
pub mod Signed
