pub mod Stamps
pub mod Holds
pub mod Rescues
pub mod LogReads
pub mod LockSets
pub mod Marks
pub mod Blocks
