pub mod Routes
pub mod Outboxes
pub mod Hits
