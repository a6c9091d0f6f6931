pub mod Waiting
pub mod Sendings
pub mod Gathers
pub mod Partly
pub mod Shows
