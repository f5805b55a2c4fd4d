pub mod Cutting
pub mod PathNames
pub mod Basics
pub mod Tests
pub mod Lists
