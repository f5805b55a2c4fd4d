pub mod Effects
pub mod Outcomes
pub mod Phases
pub mod States
