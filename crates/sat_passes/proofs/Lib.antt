pub mod Members
pub mod Neighbours
pub mod Hops
pub mod Faults
pub mod Drains
pub mod Sendings
pub mod Following
