pub mod Bare
mod Resting
mod Kept
mod Reading
mod Said
mod Whole
mod Example
