pub mod Changing
pub mod Counting
pub mod InFlight
pub mod Indexing
pub mod Losing
pub mod TicketOrder
