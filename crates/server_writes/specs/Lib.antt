pub mod Lists
pub mod Wants
