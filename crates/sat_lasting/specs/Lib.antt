pub mod Sites
pub mod Laws
pub mod Cuts
pub mod Slots
pub mod Lasts
