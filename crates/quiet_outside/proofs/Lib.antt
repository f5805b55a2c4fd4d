mod KeptExamples
pub mod Passing
pub mod Weaving
