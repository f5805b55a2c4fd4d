pub mod EntryBytes
pub mod EntriesRead
pub mod Ascending
pub mod Headers
pub mod Bounds
pub mod FirstSector
pub mod ImageLaws
pub mod DiskLaws
pub mod LastSector
pub mod CountingWritten
pub mod ReadingEntries
mod ImageExamples
