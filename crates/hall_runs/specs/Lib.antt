pub mod Asking
pub mod Gates
pub mod Keeping
pub mod Outsets
pub mod Turning
