pub mod Placed
pub mod Found
pub mod Growing
pub mod Staying
