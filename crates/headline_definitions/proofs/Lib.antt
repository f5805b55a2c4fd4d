pub mod Meaning
pub mod Prefixes
