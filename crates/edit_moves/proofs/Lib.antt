pub mod Same
pub mod Exactly
pub mod Once
pub mod Found
pub mod Sectors
pub mod AtHand
pub mod Finding
