pub mod Seen
pub mod Walks
pub mod Users
pub mod Directories
pub mod Names
pub mod Repeats
pub mod Tables
pub mod Entries
