pub mod Entries
mod Fates
mod Numbered
mod Still
pub mod Tales
mod Naming
mod Accounted
pub mod Further
mod Starting
