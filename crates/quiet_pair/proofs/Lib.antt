pub mod Causing
pub mod Counting
pub mod Giving
pub mod Tying
