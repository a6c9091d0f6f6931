pub mod Times
pub mod Watched
pub mod Ticks
pub mod Lent
pub mod Gathers
pub mod Next
pub mod Shows
