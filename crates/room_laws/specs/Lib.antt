pub mod Room
pub mod Growth
