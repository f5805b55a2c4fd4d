pub mod Standing
pub mod Seeing
