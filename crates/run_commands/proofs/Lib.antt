pub mod Completeness
mod FiguresRead
pub mod Opened
pub mod ReadScripts
pub mod Runs
pub mod Soaks
