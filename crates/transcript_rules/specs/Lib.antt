pub mod Parties
pub mod Tells
pub mod Waiting
