pub mod Finishing
pub mod Halls
pub mod Machines
