pub mod Ends
pub mod Rest
pub mod Printed
pub mod Flags
pub mod Laws
