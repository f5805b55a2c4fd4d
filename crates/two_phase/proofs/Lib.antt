pub mod Fronts
pub mod Standing
