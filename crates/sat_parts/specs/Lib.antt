pub mod Layout
pub mod Acts
pub mod HubSteps
pub mod Hubs
pub mod GearSteps
pub mod Gears
pub mod Lines
pub mod Locals
