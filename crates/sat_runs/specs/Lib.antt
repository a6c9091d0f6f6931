pub mod Runs
pub mod Running
pub mod OneLine
pub mod Good
