pub mod FirstCopies
pub mod Ties
