pub mod Seen
pub mod Changes
pub mod Inputs
pub mod Gives
pub mod HubSteps
