pub mod Places
pub mod Saving
