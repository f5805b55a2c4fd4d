pub mod Planned
pub mod Going
pub mod Meets
