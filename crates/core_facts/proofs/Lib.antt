pub mod Turns
pub mod StageForms
pub mod CacheForms
pub mod WriteKinds
pub mod Phases
pub mod Staling
mod LogHolds
pub mod Taking
mod Soling
pub mod Owing
pub mod Rescuing
pub mod Marking
pub mod Reading
mod Wholeness
