pub mod Reading
pub mod Hands
pub mod Stored
pub mod Spots
pub mod Passing
pub mod Planned
pub mod Looked
pub mod Looks
