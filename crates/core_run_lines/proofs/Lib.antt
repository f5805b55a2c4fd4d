pub mod Naming
pub mod Going
pub mod Keeping
pub mod Turning
pub mod Dirty
pub mod Lasting
pub mod Telling
pub mod Leading
