pub mod Lengthened
pub mod Written
