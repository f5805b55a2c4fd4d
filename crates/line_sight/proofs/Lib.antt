pub mod Holding
pub mod Testing
