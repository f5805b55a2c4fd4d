mod Moments
mod Along
mod Prefixes
mod Asked
mod Beginnings
