pub mod Names
pub mod Moving
pub mod Places
pub mod Rooming
