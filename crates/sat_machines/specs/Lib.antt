pub mod Layout
pub mod Acts
pub mod Sites
pub mod Plain
pub mod Serials
