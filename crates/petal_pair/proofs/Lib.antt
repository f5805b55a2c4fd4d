mod Zeros
pub mod Copying
pub mod CopyingOn
pub mod Putting
pub mod Staying
