pub mod Running
pub mod Soaking
pub mod Steps
