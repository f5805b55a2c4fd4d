pub mod Arriving
pub mod Flights
pub mod Flying
pub mod Keeping
