pub mod Over
pub mod NoEvents
pub mod Picking
pub mod Fresh
pub mod Working
