pub mod Gone
pub mod Issues
pub mod Arrivals
pub mod Failures
pub mod Acknowledged
