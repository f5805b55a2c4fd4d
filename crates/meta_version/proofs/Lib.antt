pub mod SectorPlaces
pub mod Opening
pub mod BlockBytes
pub mod UpdateExamples
