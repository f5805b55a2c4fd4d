pub mod Beside
pub mod Examples
pub mod Listed
