mod Gates
mod Turns
