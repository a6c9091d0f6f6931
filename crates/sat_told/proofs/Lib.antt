pub mod Telling
pub mod Pasts
pub mod Judging
pub mod Naming
