pub mod Swaps
pub mod Counting
