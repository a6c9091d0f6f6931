pub mod Epoched
pub mod Others
pub mod Gearing
pub mod Hubbed
pub mod Started
pub mod Stays
