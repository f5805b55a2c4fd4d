mod Always
pub mod Walking
mod Planning
mod Lining
pub mod Staging
pub mod Numbering
pub mod Saying
pub mod Fits
pub mod Fitting
pub mod Steady
pub mod Turns
mod Replies
mod Spoken
pub mod Telling
mod Owning
pub mod Happening
pub mod Answering
mod Committing
pub mod Lives
mod Living
mod Closing
pub mod Dooming
pub mod Turning
mod Blank
mod Blanking
mod Spotless
pub mod Rising
pub mod Running
mod Called
mod Due
mod Owed
mod Dooms
mod Paying
mod Along
mod Overs
mod Ending
mod Reading
mod Places
mod AnswersTelling
mod LinesAnswering
mod Following
mod Twice
mod Counting
mod Apart
mod Hosted
