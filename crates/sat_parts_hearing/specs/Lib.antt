pub mod Hearings
pub mod Along
