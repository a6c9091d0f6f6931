pub mod Spreads
pub mod Gears
pub mod Places
pub mod Targets
pub mod Copies
