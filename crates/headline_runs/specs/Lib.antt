pub mod Moments
pub mod Asked
pub mod Along
pub mod Laws
