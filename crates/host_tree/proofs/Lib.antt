pub mod SameLines
pub mod WantedSectors
pub mod AddedSectors
pub mod PlaceByPlace
pub mod ToSay
pub mod StoreRead
