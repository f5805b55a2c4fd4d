pub mod Maps
pub mod UnreadSlots
pub mod SameReading
mod EndRead
