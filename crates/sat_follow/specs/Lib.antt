pub mod Meaning
pub mod Following
pub mod UnderWay
pub mod Rules
pub mod ByLines
pub mod Answered
pub mod HasFollowed
