pub mod NamedSectors
pub mod WaitingSectors
