pub mod Given
pub mod Commands
pub mod Views
pub mod Examples
