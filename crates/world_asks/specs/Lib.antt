pub mod Fresh
pub mod Asking
pub mod Fetches
pub mod Gives
pub mod Changes
