pub mod ChainTexts
pub mod Held
