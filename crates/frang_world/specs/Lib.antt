pub mod States
pub mod Steps
pub mod Picks
pub mod Refusals
