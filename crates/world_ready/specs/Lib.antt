pub mod Asked
pub mod Events
pub mod Fits
pub mod Making
pub mod Trees
