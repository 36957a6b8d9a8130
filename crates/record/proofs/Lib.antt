pub mod Limits
pub mod Facts
pub mod RoundTrip
pub mod Widths
