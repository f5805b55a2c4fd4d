pub mod Segments
pub mod Moved
pub mod Making
