pub mod Readings
pub mod Logs
