pub mod There
pub mod Knowing
