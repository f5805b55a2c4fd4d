pub mod Reports
pub mod Turns
pub mod Worlds
pub mod Starting
pub mod Versions
