pub mod Reaching
pub mod Held
pub mod WorkedScripts
