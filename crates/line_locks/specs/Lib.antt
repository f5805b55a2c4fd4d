pub mod Same
pub mod Lines
