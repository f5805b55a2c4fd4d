mod Doubled
mod Rescues
mod Overlay
mod Issued
mod Rescued
mod Nexts
mod Hosts
mod Reclaiming
