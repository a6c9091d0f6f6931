pub mod Drains
pub mod Payloads
pub mod Windows
