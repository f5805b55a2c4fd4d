mod Events
mod Runs
mod Servers
mod Soaks
