pub mod Later
pub mod Lawful
pub mod Results
mod WatchedResults
pub mod Starting
