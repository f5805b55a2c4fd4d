pub mod Rules
pub mod Naming
pub mod Replays
pub mod Recovering
pub mod Inside
pub mod Fields
