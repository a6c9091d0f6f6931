pub mod Lanes
pub mod Gear
