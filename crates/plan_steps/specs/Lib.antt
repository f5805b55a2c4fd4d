pub mod Targets
pub mod Edits
pub mod Ends
pub mod Nodes
pub mod Outcomes
pub mod Rooms
pub mod Spots
pub mod Looking
