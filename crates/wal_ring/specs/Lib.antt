pub mod SpaciousRings
pub mod Outcomes
pub mod Kept
