pub mod Answered
pub mod Listed
pub mod Paths
pub mod ListLooks
