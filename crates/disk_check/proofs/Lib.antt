pub mod Gathered
pub mod Pushed
pub mod Reported
pub mod Stands
