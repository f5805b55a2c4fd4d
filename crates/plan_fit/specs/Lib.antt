pub mod Says
pub mod Laws
pub mod FitNames
pub mod FitFiles
pub mod FitDisks
pub mod SmallPlans
