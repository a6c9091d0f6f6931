pub mod Forms
pub mod Histories
pub mod Laws
