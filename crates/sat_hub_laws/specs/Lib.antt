pub mod Inputs
pub mod Hubs
pub mod Gears
pub mod Changes
pub mod Lines
pub mod Parts
pub mod Sites
pub mod Laws
