mod Climbing
mod Hosting
mod Soaking
