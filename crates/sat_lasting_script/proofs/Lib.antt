pub mod LinesSay
pub mod Sound
pub mod Quick
