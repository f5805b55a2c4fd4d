pub mod Segments
pub mod Planning
pub mod Listed
pub mod Bytes
