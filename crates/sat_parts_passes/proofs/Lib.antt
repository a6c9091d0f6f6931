mod Flushing
pub mod Sent
mod Idling
mod Drained
mod Parting
pub mod Shown
