pub mod Saying
pub mod Lines
pub mod Ends
pub mod Steps
pub mod Recovered
pub mod Sentences
pub mod Asked
