pub mod Inodes
pub mod Made
pub mod AtHand
pub mod Changed
