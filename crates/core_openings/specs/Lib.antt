pub mod Openings
pub mod Fresh
