pub mod Nets
pub mod Lending
pub mod NetStands
pub mod Laws
