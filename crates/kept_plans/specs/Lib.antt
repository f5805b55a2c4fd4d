pub mod Records
pub mod Bases
pub mod Outcomes
pub mod Kept
pub mod Keeping
