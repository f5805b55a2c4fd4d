pub mod Told
pub mod PartsTold
pub mod Parts
