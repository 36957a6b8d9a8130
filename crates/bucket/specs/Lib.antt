pub mod Convexity
pub mod Buckets
pub mod Mapped
