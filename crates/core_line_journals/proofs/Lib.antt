pub mod Appending
pub mod Kept
pub mod Room
pub mod Without
