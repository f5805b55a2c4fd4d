pub mod Counting
pub mod Desks
pub mod Watching
