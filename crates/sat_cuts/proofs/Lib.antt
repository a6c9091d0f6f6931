pub mod Rises
pub mod Tells
pub mod WorkedCuts
