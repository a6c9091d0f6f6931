pub mod Bounds
pub mod Code
pub mod Exact
pub mod Forms
pub mod Labels
pub mod Payloads
pub mod Texts
pub mod Wholes
