pub mod Prices
pub mod Read
pub mod Write
