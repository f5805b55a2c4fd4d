pub mod Meeting
pub mod Setting
pub mod Outcomes
pub mod Ending
pub mod Examining
pub mod Recording
