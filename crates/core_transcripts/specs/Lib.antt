pub mod Faults
pub mod Transcripts
pub mod Within
pub mod Ends
pub mod Answers
pub mod Scripts
