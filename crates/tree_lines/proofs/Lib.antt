pub mod LeftLaws
pub mod PathTexts
pub mod BelowLaws
