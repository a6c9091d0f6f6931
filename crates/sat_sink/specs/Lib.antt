pub mod Pending
pub mod Sink
pub mod Found
