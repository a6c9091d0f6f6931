pub mod Ways
pub mod Wires
pub mod Ends
