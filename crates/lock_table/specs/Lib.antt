pub mod Asked
pub mod Kept
pub mod Looks
pub mod Table
