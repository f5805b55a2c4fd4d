pub mod Ascending
pub mod Marking
pub mod Placing
pub mod TicksPassed
