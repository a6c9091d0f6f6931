pub mod Reading
pub mod Going
pub mod Doing
pub mod Ending
