pub mod Planned
pub mod Staged
pub mod Regrowing
pub mod StageWords
pub mod Lines
pub mod NamedSectors
