pub mod PairedCalls
pub mod PairedCopies
pub mod Refilling
