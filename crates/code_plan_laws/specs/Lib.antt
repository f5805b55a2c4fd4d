pub mod CodeStands
pub mod Fresh
