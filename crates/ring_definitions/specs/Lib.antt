pub mod Rings
pub mod RingRuns
pub mod RingSteps
pub mod Ends
pub mod Replays
pub mod Sealing
