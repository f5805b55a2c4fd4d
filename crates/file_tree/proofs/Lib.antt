pub mod Finds
pub mod Walking
pub mod WalkReturns
pub mod Targets
pub mod Rooms
pub mod Moves
pub mod Showing
pub mod NodeLines
