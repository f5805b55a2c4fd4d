pub mod WalkAnswers
pub mod Leading
pub mod NameSteps
pub mod LinkSteps
pub mod Agreeing
pub mod NameLooks
pub mod LinkLooks
