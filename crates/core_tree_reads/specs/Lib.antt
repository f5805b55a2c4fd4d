pub mod AtRest
pub mod Reads
pub mod Lines
pub mod Examples
