pub mod Refusals
pub mod Edits
pub mod ReadBack
