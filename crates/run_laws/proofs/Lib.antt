mod Steps
mod Passing
mod Placing
mod Elsewhere
mod Sighted
