pub mod Verdicts
pub mod Scripts
pub mod Judging
pub mod Texts
