pub mod Breaking
pub mod Times
pub mod Scripts
pub mod Turning
pub mod Hearing
pub mod Adding
pub mod Finding
pub mod Answering
