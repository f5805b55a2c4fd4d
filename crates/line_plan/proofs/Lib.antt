pub mod Fitting
pub mod Behind
pub mod Renames
pub mod Looking
pub mod WalkReads
pub mod Standing
pub mod Exactly
