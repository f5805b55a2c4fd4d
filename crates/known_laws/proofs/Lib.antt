pub mod There
pub mod Changed
pub mod Knowing
pub mod Hiding
