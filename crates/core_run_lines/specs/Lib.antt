pub mod Dirt
