pub mod KeptLines
pub mod QuietAccounts
pub mod SoakNumbers
pub mod SoakReports
