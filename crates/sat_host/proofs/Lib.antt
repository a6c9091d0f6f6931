pub mod Slips
pub mod Cursors
pub mod Turning
pub mod Bulking
pub mod Locals
pub mod Growing
pub mod Labels
