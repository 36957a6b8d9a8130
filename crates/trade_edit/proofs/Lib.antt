pub mod BlockLaws
pub mod StepLaws
