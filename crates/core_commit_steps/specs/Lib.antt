pub mod Commits
pub mod Moments
pub mod Steps
pub mod First
pub mod Lasts
pub mod Fits
pub mod Quiet
