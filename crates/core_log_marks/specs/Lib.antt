pub mod Accounts
pub mod LastRecords
pub mod Steps
pub mod Keeping
pub mod Examples
