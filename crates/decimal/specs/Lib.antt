pub mod Product
pub mod HalfUp
