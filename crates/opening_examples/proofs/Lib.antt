mod Again
mod Begins
mod Whole
