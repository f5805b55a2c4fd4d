pub mod Begins
pub mod States
pub mod Rooms
pub mod Issues
pub mod Arrivals
pub mod AnswerEffects
