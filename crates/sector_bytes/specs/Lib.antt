pub mod Bytes
pub mod Blocks
pub mod Changes
pub mod Replays
pub mod Patches
pub mod Sectors
pub mod SectorMaps
