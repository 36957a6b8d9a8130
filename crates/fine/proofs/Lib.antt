pub mod LowPowers
pub mod Antilogs
pub mod Bound
pub mod FineValues
