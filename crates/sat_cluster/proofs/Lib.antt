mod Marks
mod Answering
pub mod Doing
mod Ending
pub mod Locking
pub mod Watching
