pub mod Asked
pub mod HeldSegments
