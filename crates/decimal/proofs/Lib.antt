pub mod Products
pub mod HalfUp
