pub mod Pushing
pub mod Waits
pub mod Telling
pub mod Taking
pub mod Answering
pub mod Settled
pub mod Beginning
