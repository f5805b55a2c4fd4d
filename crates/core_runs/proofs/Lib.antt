mod Quiet
mod Leading
mod Events
mod Keeping
mod Starting
mod Standing
