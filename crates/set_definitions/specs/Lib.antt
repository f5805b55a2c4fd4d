pub mod Sets
pub mod Seen
pub mod Usable
