pub mod Idle
pub mod Lives
pub mod Cleared
pub mod Room
pub mod Steps
pub mod Examples
