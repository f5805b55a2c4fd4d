pub mod Appends
pub mod Disks
