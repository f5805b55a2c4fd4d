pub mod Sums
pub mod View
pub mod Rules
pub mod Report
pub mod Laws
