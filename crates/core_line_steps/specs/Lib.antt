pub mod Held
pub mod Marks
pub mod Numbers
pub mod Pending
