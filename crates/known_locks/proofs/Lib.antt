pub mod ClerkLists
pub mod Forgetting
pub mod Listing
pub mod Renewing
pub mod Rooms
pub mod SameEntries
pub mod Walking
