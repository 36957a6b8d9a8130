pub mod Schedules
pub mod Growth
pub mod Exposures
