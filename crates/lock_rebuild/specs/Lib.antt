pub mod Guard
pub mod Lists
pub mod Missing
pub mod Rebuilt
pub mod Steps
