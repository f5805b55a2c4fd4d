pub mod Over
pub mod Fresh
pub mod Going
pub mod Listing
pub mod Rows
pub mod Wanting
pub mod Issuing
