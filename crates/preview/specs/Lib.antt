pub mod Preview
pub mod Previewed
