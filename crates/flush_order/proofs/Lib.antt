pub mod MarkOrder
pub mod MarkExamples
