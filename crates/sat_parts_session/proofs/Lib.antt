pub mod Asks
pub mod Looks
pub mod Together
