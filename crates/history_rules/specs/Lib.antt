pub mod Standing
pub mod Known
pub mod Settled
