pub mod Told
pub mod Naming
pub mod Coming
pub mod Telling
