pub mod Kept
pub mod Journals
pub mod Open
pub mod Steps
pub mod Starts
pub mod Trees
