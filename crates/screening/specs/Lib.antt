pub mod Screening
