pub mod Leasts
pub mod Queues
pub mod Fronts
pub mod Sinks
pub mod Deeds
pub mod Finding
pub mod Fits
