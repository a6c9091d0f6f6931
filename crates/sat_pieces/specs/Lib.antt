pub mod Good
pub mod Streaming
pub mod UnderWay
