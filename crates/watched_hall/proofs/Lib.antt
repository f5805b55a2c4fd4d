mod Prefixes
mod Events
mod Machines
mod Desks
mod Finishes
