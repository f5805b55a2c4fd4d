pub mod Membership
pub mod Guarding
pub mod Parties
pub mod Keys
pub mod Keeping
mod Listing
mod ListingEnds
pub mod Exact
pub mod Flying
pub mod Single
pub mod Along
pub mod Kept
mod Ending
mod Ended
mod Timing
pub mod Memory
pub mod Resting
pub mod Ashore
pub mod Unheld
pub mod FlightLists
pub mod LogFlights
pub mod WantedWrites
pub mod Windows
mod Recovering
mod Sorting
mod Stages
mod Servers
pub mod OrderKeeping
mod Blocks
mod Rows
mod Ticks
mod EventKeys
mod Lasting
pub mod Asked
mod Wishing
mod Lists
mod Waiting
mod Hearing
mod Opened
