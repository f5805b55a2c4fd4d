pub mod NumbersRead
pub mod RecordBack
pub mod RecordRead
pub mod RecordSteps
pub mod FrameBack
pub mod Lengths
