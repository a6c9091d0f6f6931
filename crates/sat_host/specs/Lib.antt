pub mod Turns
pub mod Receptions
pub mod Cursors
pub mod Locals
pub mod Fresh
