pub mod Sufficing
pub mod Printed
