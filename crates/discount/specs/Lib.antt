pub mod Discount
pub mod Exact
pub mod Flows
pub mod Valued
pub mod Powers
