pub mod Forms
pub mod ChainLines
pub mod Readings
pub mod Histories
pub mod Laws
