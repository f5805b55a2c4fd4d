pub mod Leaving
pub mod Done
pub mod LaidOver
pub mod AtRest
pub mod Bare
pub mod Closed
