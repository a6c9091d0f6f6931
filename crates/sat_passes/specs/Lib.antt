pub mod Members
pub mod Faults
pub mod Relays
pub mod Hearings
pub mod Sendings
pub mod Followed
