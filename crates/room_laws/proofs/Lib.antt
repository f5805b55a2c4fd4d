pub mod Walking
pub mod Refused
pub mod Numbers
pub mod Entering
pub mod GainingNames
pub mod GainingFiles
pub mod Gaining
pub mod Growing
