pub mod Duties
pub mod Relays
pub mod Replicas
pub mod Waiting
