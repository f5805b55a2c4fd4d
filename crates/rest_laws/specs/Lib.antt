pub mod Histories
pub mod Done
pub mod LaidOver
pub mod AtRest
pub mod ClosedServers
