pub mod Numbering
pub mod OneMore
pub mod SoakExamples
