pub mod Exact
pub mod Segments
pub mod States
pub mod Steps
