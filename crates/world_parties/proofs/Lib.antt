pub mod Changing
pub mod Reading
pub mod Recovering
pub mod Keeping
pub mod Flagging
