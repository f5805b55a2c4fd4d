pub mod Begins
pub mod Reads
pub mod Arrivals
pub mod Ends
pub mod Failures
pub mod Seals
pub mod Steps
pub mod Logs
