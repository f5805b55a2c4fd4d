pub mod Along
pub mod Comparing
pub mod Kept
