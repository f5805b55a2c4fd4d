pub mod Journals
pub mod Logs
pub mod Reports
