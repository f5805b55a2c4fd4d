pub mod Boxes
pub mod Updates
