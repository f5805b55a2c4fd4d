pub mod Doubled
pub mod Issuing
pub mod Laws
pub mod Nexts
