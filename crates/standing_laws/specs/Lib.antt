pub mod Below
pub mod ReadTree
pub mod Soundness
pub mod Renaming
pub mod Laws
pub mod Room
pub mod Reached
