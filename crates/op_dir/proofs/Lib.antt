pub mod Names
pub mod Choosing
pub mod Moves
pub mod Placing
pub mod Rooming
pub mod Going
pub mod Walking
pub mod Looking
