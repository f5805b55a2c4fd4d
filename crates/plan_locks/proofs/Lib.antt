pub mod Joined
pub mod Needed
