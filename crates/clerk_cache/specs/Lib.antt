pub mod CoveredMarks
pub mod Covers
pub mod Dropping
pub mod Indexing
pub mod Kept
pub mod Keys
pub mod Marks
