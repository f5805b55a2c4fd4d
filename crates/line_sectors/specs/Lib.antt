pub mod Looks
pub mod Sets
