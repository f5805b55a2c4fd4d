pub mod Hidden
pub mod Moments
pub mod Keeping
pub mod Telling
pub mod Legal
pub mod Lines
pub mod Closed
