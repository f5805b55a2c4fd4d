pub mod Answers
pub mod Changes
pub mod ClaimLists
pub mod Compatibility
pub mod LockOrder
pub mod ServerTests
pub mod States
pub mod Wants
