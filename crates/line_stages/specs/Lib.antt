pub mod Stages
pub mod Reading
pub mod Asked
pub mod Needs
pub mod Agains
pub mod Growing
pub mod Oldest
