pub mod Rows
pub mod Looks
pub mod Reading
pub mod Whole
