pub mod Progress
pub mod Faults
pub mod Good
pub mod Ran
pub mod Streamed
