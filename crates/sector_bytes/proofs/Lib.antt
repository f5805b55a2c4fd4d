pub mod SameBytes
pub mod ChangeLaws
pub mod PatchLaws
pub mod MapLaws
mod ChangeExamples
mod PatchExamples
mod MapExamples
