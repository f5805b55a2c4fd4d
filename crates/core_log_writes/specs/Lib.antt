pub mod Marks
pub mod Quiet
pub mod LogWrites
pub mod Issues
pub mod Arrivals
pub mod Failures
pub mod Gone
