pub mod SectorsSet
pub mod LaidChanges
pub mod LogsApart
pub mod ReplayedDisk
pub mod FittingRecords
pub mod ReadSlots
pub mod Copied
pub mod ErasedLogs
