pub mod Figures
pub mod Boards
pub mod Rule
